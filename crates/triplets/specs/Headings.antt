-- The heading of a text of generators.
use Rattle.std.specs.Prelude.{◌≡◌, ℕ, List, ◌++◌, Option, codes}
use Rattle.triplets.specs.Grammar.{Blank, blanks_text}
use Rattle.triplets.specs.Lines.{comment_text}

-- the word that line 1 may be
abbrev pub heading_word : List ℕ
heading_word = codes "generators"

-- the bytes are this word, with blanks around it and at most a comment behind it
pub record IsHeading (bytes : List ℕ) : Type 0 where
  pub before : List Blank
  pub behind : List Blank
  pub comment : Option (List ℕ)
  pub text : bytes ≡ blanks_text before ++ (heading_word ++ (blanks_text behind ++ comment_text comment))
