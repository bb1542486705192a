pub mod Survey
pub mod Sound
pub mod Audit
