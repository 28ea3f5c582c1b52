pub mod Runs
pub mod Places
pub mod Bytes
pub mod Divisors
pub mod PartRuns
pub mod Written
pub mod Partials
pub mod Wholes
pub mod Seen
pub mod KindTable
pub mod KindFacts
pub mod Bounds
pub mod Sizes
pub mod Ends
pub mod LineBounds
pub mod TextBounds
pub mod TextFacts
pub mod LineBegun
pub mod VectorSteps
pub mod LineSteps
pub mod LineEnds
pub mod VectorRuns
pub mod LineRuns
pub mod LineSeen
pub mod PartEnds
pub mod LineAgrees
pub mod LineTable
pub mod LineKinds
pub mod LinePlaces
pub mod LineByLine
pub mod TextEnds
pub mod TextShown
pub mod BegunRows
pub mod KeptLines
pub mod Headings
pub mod FlatTexts
pub mod HeadingKinds
pub mod FirstLines
pub mod FirstTexts
pub mod FirstShown
pub mod Answered
pub mod OneFault
pub mod FirstKept
pub mod HeadingLaws
mod RowTexts
mod Terms
mod NumberTrees
mod TermTrees
mod PartTrees
mod TripletTrees
mod WritingSamples
pub mod TextLines
