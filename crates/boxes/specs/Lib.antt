-- #102: sheets in boxes, and what is told of them.
pub mod Boxes
