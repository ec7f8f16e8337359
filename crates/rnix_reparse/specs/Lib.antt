pub mod EditedRange
pub mod OwnBrackets
pub mod TreeHeight
pub mod ParsedText
pub mod EditableRanges
pub mod ReparsedNode
