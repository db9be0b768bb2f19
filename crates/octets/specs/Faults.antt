-- The number of each fault and what it stands for, as every program prints them. Want of memory has no number: 0 stands for that.
use Rattle.std.specs.Prelude.{ℕ, List, codes}
use Rattle.octets.specs.declared.fault.Fault.{Fault}
use Rattle.octets.specs.declared.fault.Fault.TheVariants.{Form, Range, Operand, Port, Product, Copies, Rules, OtherSwitch, Busy, LastVersion, OtherOrder, Memory}

abbrev pub number : Fault → ℕ
number Form = 1
number Range = 2
number Operand = 3
number Port = 4
number Product = 5
number Copies = 6
number Rules = 7
number OtherSwitch = 8
number Busy = 9
number LastVersion = 10
number OtherOrder = 11
number Memory = 0

-- what a fault's number stands for
abbrev pub cause_of : Fault → List ℕ
cause_of Form = codes "unknown kind, bad length"
cause_of Range = codes "a field, value, switch, port, hop count or number of nodes out of range; in a change, a switch missing or twice"
cause_of Operand = codes "a node names itself, a later one, or one of the wrong sort"
cause_of Port = codes "a port on two cables, or on a cable and outside; a cable from a port to itself"
cause_of Product = codes "the product over the fields is above 65,536"
cause_of Copies = codes "more than 16 copies"
cause_of Rules = codes "more than 2,048 rules, or 8,192 in a table on the way"
cause_of OtherSwitch = codes "an order for another switch"
cause_of Busy = codes "change while the desk isn't idle"
cause_of LastVersion = codes "change while the desk's version is 65,535"
cause_of OtherOrder = codes "an answer about an order that isn't the stage's"
cause_of Memory = codes "no memory is left"
