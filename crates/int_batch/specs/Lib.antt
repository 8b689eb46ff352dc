pub mod BatchValue
