pub mod StepCount
