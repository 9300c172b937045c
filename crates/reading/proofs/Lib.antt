-- The laws of reading, each group resting on those above it: numbers and records (Signed, Filling, Ints, Heads, Cases), a formula and a whole sheet as
-- the code reads them (Reading, Whole), the numbers of its refusals (Refusals), what is written is read and what is read was written (Laws, Lengths, Sound, Accepts, Trees), the walk over
-- the parts of a formula and what each record says (Walking, Viewing), the first and
-- the last quantifier and the look (Places, Scan, Looking), formulas that are passed over (Passing), reading under other limits (OtherLimits), and that each promise allows one reply (Unique). Examples are worked sheets.
pub mod Signed
pub mod Filling
pub mod Ints
pub mod Heads
pub mod Cases
pub mod Reading
pub mod Whole
pub mod Refusals
pub mod Laws
pub mod Lengths
pub mod Sound
pub mod Accepts
pub mod Trees
pub mod Walking
pub mod Viewing
pub mod Places
pub mod Scan
pub mod Passing
pub mod Looking
pub mod OtherLimits
pub mod Unique
pub mod Examples
