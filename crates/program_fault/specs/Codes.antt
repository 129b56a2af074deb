-- The codes of the faults that the program prints.
use Rattle.std.specs.Prelude.{ℕ, List, Option, Some, None, codes}
use Rattle.audit_fault.specs.declared.fault.AuditFault.{AuditFault}
use Rattle.audit_fault.specs.declared.fault.AuditFault.TheVariants as audit
use Rattle.tool_io.specs.declared.failure.HandoverFault.{HandoverFault}
use Rattle.tool_io.specs.declared.failure.HandoverFault.TheVariants as handover
use Rattle.config_text.specs.declared.fault.ConfigFault.{ConfigFault}
use Rattle.config_text.specs.declared.fault.ConfigFault.TheVariants as config
use Rattle.resharder.specs.Faults.{code_of as reshard_code}
use Rattle.smart_client.specs.Faults.{code_of as client_code}
use Rattle.program_fault.specs.declared.fault.ProgramFault.{ProgramFault}
use Rattle.program_fault.specs.declared.fault.ProgramFault.TheVariants.{UnreadableFile, AddressInUse, Memory, Thread, Output, Config, Script, Client, Reshard, Handover, Audit}

-- of a configuration
abbrev pub config_code : ConfigFault → List ℕ
config_code config.Syntax = codes "K1"
config_code config.Id = codes "K2"
config_code config.Slots = codes "K3"
config_code config.ReplicaOf = codes "K4"
config_code config.Voters = codes "K5"
config_code config.TooManyNodes = codes "K6"
config_code config.Address = codes "K7"
config_code config.Range = codes "K8"
config_code config.Memory = codes "F3"

-- of a replica that is to take the place of its master
abbrev pub handover_code : HandoverFault → List ℕ
handover_code handover.NotFound = codes "H1"
handover_code handover.IsMaster = codes "H2"
handover_code handover.SlotMoves = codes "H3"
handover_code handover.NotInTime = codes "H4"
handover_code handover.NotReached = codes "H5"
handover_code handover.BadReply = codes "H6"

-- of journals that are gathered
abbrev pub audit_code : AuditFault → List ℕ
audit_code audit.Stranger = codes "20"
audit_code audit.Memory = codes "21"

abbrev pub code_of : ProgramFault → List ℕ
code_of UnreadableFile = codes "F1"
code_of AddressInUse = codes "F2"
code_of Memory = codes "F3"
code_of Thread = codes "F3"
code_of Output = codes "F4"
code_of (Config fault) = config_code fault
code_of (Script line) = codes "S"
code_of (Client fault) = client_code fault
code_of (Reshard fault) = reshard_code fault
code_of (Handover fault) = handover_code fault
code_of (Audit fault) = audit_code fault

-- what stands behind the code: the number of the line
abbrev pub number_of : ProgramFault → Option ℕ
number_of UnreadableFile = None
number_of AddressInUse = None
number_of Memory = None
number_of Thread = None
number_of Output = None
number_of (Config fault) = None
number_of (Script line) = Some line
number_of (Client fault) = None
number_of (Reshard fault) = None
number_of (Handover fault) = None
number_of (Audit fault) = None
