-- The codes of faults (ours).
use Rattle.std.specs.Prelude.{ℕ, List, codes}
use Rattle.resharder.specs.declared.fault.ReshardFault.{ReshardFault}
use Rattle.resharder.specs.declared.fault.ReshardFault.TheVariants.{TooOften, NotReached, NotListed, BadReply, NoNextNumber, Memory}

-- what a program prints
abbrev pub code_of : ReshardFault → List ℕ
code_of TooOften = codes "V1"
code_of NotReached = codes "V2"
code_of NotListed = codes "V2"
code_of BadReply = codes "V3"
code_of NoNextNumber = codes "V3"
code_of Memory = codes "F3"
