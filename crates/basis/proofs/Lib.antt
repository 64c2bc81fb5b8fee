pub mod FromPlaces
pub mod ClassTable
pub mod PassLaws
pub mod LoadedClasses
pub mod LetterLaws
pub mod NameReading
pub mod WorkLaws
