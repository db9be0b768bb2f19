-- The words that begin a line of a header.
use Rattle.std.specs.Prelude.{ℕ, List, None, codes, Option}
use Rattle.script.specs.declared.header.headings.Heading.{Heading}
use Rattle.script.specs.declared.header.headings.Heading.TheVariants.{Net, Cable, Outside, Text, Start}
use Rattle.script.specs.Verbs.{or_else}

abbrev pub heading_word : Heading → List ℕ
heading_word Net = codes "net"
heading_word Cable = codes "cable"
heading_word Outside = codes "outside"
heading_word Text = codes "text"
heading_word Start = codes "start"

abbrev pub heading_of : List ℕ → Option Heading
heading_of w =
    or_else heading_word w Net
    (or_else heading_word w Cable
    (or_else heading_word w Outside
    (or_else heading_word w Text
    (or_else heading_word w Start None))))
