-- The codes of faults (ours).
use Rattle.std.specs.Prelude.{ℕ, List, codes}
use Rattle.smart_client.specs.declared.fault.ClientFault.{ClientFault}
use Rattle.smart_client.specs.declared.fault.ClientFault.TheVariants.{Lost, TooManyRedirects, StillTryAgain, Memory, NotConnected, BadReply, NotData}

-- what a program prints
abbrev pub code_of : ClientFault → List ℕ
code_of Lost = codes "C1"
code_of TooManyRedirects = codes "C2"
code_of StillTryAgain = codes "C3"
code_of Memory = codes "C4"
code_of NotConnected = codes "C5"
code_of BadReply = codes "C6"
code_of NotData = codes "C7"
