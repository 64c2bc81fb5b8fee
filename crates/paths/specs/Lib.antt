pub mod SampleNodes
