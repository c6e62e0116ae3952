pub mod PlanLemmas
pub mod CheckLemmas
pub mod PartLemmas
mod CallLemmas
