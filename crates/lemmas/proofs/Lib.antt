-- Lemmas that laws of several families cite.
pub mod Cases
pub mod Fresh
pub mod MayRuns
pub mod Open
