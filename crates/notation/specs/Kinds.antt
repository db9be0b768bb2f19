-- The word that begins a node of each kind.
use Rattle.std.specs.Prelude.{ℕ, Bool, cond, List, Some, None, codes, Option}
use Rattle.std.specs.Str.{bytes_eq}
use Rattle.notation.specs.declared.kind.Kind.{Kind}
use Rattle.notation.specs.declared.kind.Kind.TheVariants.{Always, Is, Both, Either, Not, Keep, Put, And, Then}

abbrev pub word_of : Kind → List ℕ
word_of Always = codes "always"
word_of Is = codes "is"
word_of Both = codes "both"
word_of Either = codes "either"
word_of Not = codes "not"
word_of Keep = codes "keep"
word_of Put = codes "put"
word_of And = codes "and"
word_of Then = codes "then"

unfoldable pub same_word : List ℕ → List ℕ → Bool
same_word v w = bytes_eq v w

-- this kind, if the word is its word; else what the other kinds give
abbrev pub or_else : List ℕ → Kind → Option Kind → Option Kind
or_else w k other = cond (same_word w (word_of k)) (Some k) other

abbrev pub kind_of : List ℕ → Option Kind
kind_of w =
    or_else w Always
    (or_else w Is
    (or_else w Both
    (or_else w Either
    (or_else w Not
    (or_else w Keep
    (or_else w Put
    (or_else w And
    (or_else w Then None))))))))
