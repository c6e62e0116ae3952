pub mod WheelLemmas
