pub mod DocumentNodes
pub mod NodeTrees
pub mod DocumentSteps
pub mod TextSteps
