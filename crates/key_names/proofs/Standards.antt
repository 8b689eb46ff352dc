-- Published test vectors are computed here, and lemmas cut and join pieces of a keystream.
pub mod Blake2sVectors
pub mod Keystreams
