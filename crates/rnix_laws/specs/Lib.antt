pub mod ReadPrefix
