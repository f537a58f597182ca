pub mod DelayList
pub mod FrameList
pub mod LabelList
