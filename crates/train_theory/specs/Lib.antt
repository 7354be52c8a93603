-- Feeds and lines together: what the feeds that a book was given make of the costs of a line. Start here.
--
--   Feeding    byte strings read in turn into a new book, and the trains that occur in the granted ones
--   Layers     any layers over a line, and what they make of a cost
--   Weighing   the theorem: each train that occurs adds its cost once, whatever layers lie above
pub mod Feeding
pub mod Layers
pub mod Weighing
