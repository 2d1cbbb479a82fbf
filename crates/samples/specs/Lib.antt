pub mod SampleCharts
pub mod SampleBuilds
pub mod SampleWalks
