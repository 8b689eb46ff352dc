-- In a lawful book, each held key and batch has the bytes of its name. In a lawful transcript, the printed bytes are
-- the bytes of named spans.
pub mod Named
pub mod StateNamed
pub mod HeldBytes
pub mod ServedNamed
pub mod BatchNamed
pub mod VreadsNamed
pub mod PrintedOnce
pub mod PrintedTimes
pub mod PrintedLines
pub mod PrintedNamed
