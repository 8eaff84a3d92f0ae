-- Admitted dictionaries: order of words, keys, admission.
pub mod WordCode
pub mod Admission
pub mod Answering
pub mod Refused
pub mod Keys
pub mod WordOrder
pub mod Lexicon
pub mod Prefixes
pub mod WordStarts
