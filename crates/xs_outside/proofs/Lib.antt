pub mod CrashLemmas
pub mod ImageLemmas
pub mod MomentLemmas
pub mod OutputLemmas
pub mod ProgressLemmas
pub mod SideImageLemmas
pub mod TriedImageLemmas
