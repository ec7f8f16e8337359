pub mod StrictExpressions
pub mod PathsAlone
pub mod DerivedExpressions
pub mod TextsAlone
pub mod ExpressionExamples
pub mod WiderLaws
