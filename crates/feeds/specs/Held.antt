-- What a book holds, whatever memory it holds it in. Assumes nothing.
--
--   held b   the sizes and the trains of the book b
use Rattle.std.specs.Prelude.{vec_items}
use Rattle.feeds.specs.declared.book.Book.{Book}
use Rattle.feed_types.specs.Reading.{Register}

abbrev pub held : Book → Register
held b = record { sizes = b.sizes; trains = vec_items b.trains }
