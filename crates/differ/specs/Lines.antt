-- The printed lines: `same`, or the packet and both sets.
use Rattle.std.specs.Prelude.{ℕ, List, [], ◌∷◌, ◌++◌, codes, decimal}
use Rattle.std.specs.List.{flat_map}
use Rattle.packet.specs.Packet.{Packet, field}

-- the eight fields with blanks between them
abbrev pub packet_text : Packet → List ℕ
packet_text p =
    decimal (field 0 p) ++ (codes " " ++ (decimal (field 1 p) ++ (codes " " ++ (decimal (field 2 p) ++ (codes " " ++ (decimal (field 3 p) ++ (codes " " ++
    (decimal (field 4 p) ++ (codes " " ++ (decimal (field 5 p) ++ (codes " " ++ (decimal (field 6 p) ++ (codes " " ++ decimal (field 7 p))))))))))))))

abbrev pub more_text : List Packet → List ℕ
more_text ps = flat_map (λ p. codes " | " ++ packet_text p) ps

abbrev pub set_text : List Packet → List ℕ
set_text [] = codes "none"
set_text (p ∷ ps) = packet_text p ++ more_text ps

abbrev pub same_text : List ℕ
same_text = codes "same\n"

abbrev pub difference_text : Packet → List Packet → List Packet → List ℕ
difference_text r ps qs =
    codes "packet " ++ (packet_text r ++ (codes "\nfirst " ++ (set_text ps ++ (codes "\nsecond " ++ (set_text qs ++ codes "\n")))))
