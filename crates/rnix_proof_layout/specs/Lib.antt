pub mod AlikeItems
