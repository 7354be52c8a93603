-- Tokens of a feed. Assumes nothing.
--
--   key_of t, value_of t   the key of a token, and the bytes of its value
use Rattle.std.specs.Prelude.{ℕ, List}
use Rattle.feed_types.specs.declared.keys.Key.{Key}
use Rattle.feed_types.specs.declared.keys.Key.TheVariants as key
use Rattle.feed_lines.specs.declared.tokens.Token.{Token}
use Rattle.feed_lines.specs.declared.tokens.Token.TheVariants as token

abbrev pub key_of : Token → Key
key_of (token.Stops v) = key.Stops
key_of (token.States v) = key.States
key_of (token.Inputs v) = key.Inputs
key_of (token.Train v) = key.Train
key_of (token.Stop v) = key.Stop
key_of (token.Weight v) = key.Weight
key_of (token.Late v) = key.Late
key_of (token.Move v) = key.Move
key_of (token.Aim v) = key.Aim

abbrev pub value_of : Token → List ℕ
value_of (token.Stops v) = v.now
value_of (token.States v) = v.now
value_of (token.Inputs v) = v.now
value_of (token.Train v) = v.now
value_of (token.Stop v) = v.now
value_of (token.Weight v) = v.now
value_of (token.Late v) = v.now
value_of (token.Move v) = v.now
value_of (token.Aim v) = v.now
