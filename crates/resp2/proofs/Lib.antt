mod Appended
pub mod ArraySteps
pub mod Beginnings
pub mod Callers
pub mod FirstBadByte
pub mod Fronts
pub mod HeaderReading
pub mod HeaderRoundTrip
pub mod LeafSteps
pub mod MoreBytes
pub mod Overlong
pub mod ReaderSteps
pub mod Readers
pub mod ReadingDecides
pub mod ReplyDecides
pub mod ReplyLaws
pub mod ReplyLimits
pub mod ReplyReaders
pub mod ReplySteps
pub mod RequestReading
pub mod RequestRoundTrip
pub mod ShortestBad
pub mod SizeLimit
pub mod Spellings
pub mod Theorems
pub mod WordsDecide
mod WorkedValues
