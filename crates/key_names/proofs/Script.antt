-- A text has no fault if and only if it is the text of a well-formed script.
pub mod EventLines
pub mod HexFields
pub mod HexBytes
pub mod FieldReaders
pub mod ScriptTexts
pub mod ScriptOrFault
pub mod ScriptBodies
pub mod Drafts
pub mod SaidLines
pub mod EventReaders
pub mod LinedTexts
pub mod Numbers
pub mod Parts
pub mod ScriptStates
