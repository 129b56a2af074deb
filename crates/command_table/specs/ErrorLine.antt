-- The texts of error replies (RESP protocol, "Simple errors": the first word is the kind of error).
use Rattle.std.specs.Prelude.{List, ℕ, ◌++◌, codes}
use Rattle.command_table.specs.Names.{name_text}
use Rattle.command_table.specs.declared.fault.CommandFault.{CommandFault}
use Rattle.command_table.specs.declared.fault.CommandFault.TheVariants.{Unknown, UnknownSubcommand, Arity, Syntax, InvalidSlot, NotAnInteger as NoInteger}
use Rattle.command_table.specs.declared.error_line.ErrorLine.{ErrorLine}
use Rattle.command_table.specs.declared.error_line.ErrorLine.TheVariants.{Protocol, OutOfMemory, Exhausted, UnknownCommand, UnknownSubcommand as UnknownWord, WrongArity, Syntax as WrongSyntax, CrossSlot, SlotDown, TooLong, NotAnInteger, HashNotAnInteger, Overflow, WrongType, InvalidSlot as WrongSlot, SomeKeysMissing, KeyFrozen, HandingOver, TableNotUpdated, OldMove, SlotBusy, NotOwner, AlreadyOwner, NotDrained, UnknownNode, CopyOutstanding, WrongTarget, NotAcknowledged, NotReplica, NodePaused}

-- what follows the `-`
abbrev pub error_text : ErrorLine → List ℕ
error_text Protocol = codes "ERR Protocol error"
error_text OutOfMemory = codes "OOM out of memory"
error_text Exhausted = codes "EXHAUSTED no next number"
error_text UnknownCommand = codes "ERR unknown command"
error_text UnknownWord = codes "ERR unknown subcommand"
error_text WrongSyntax = codes "ERR syntax error"
error_text CrossSlot = codes "CROSSSLOT Keys in request don't hash to the same slot"
error_text SlotDown = codes "CLUSTERDOWN Hash slot not served"
error_text TooLong = codes "ERR value exceeds maximum allowed size"
error_text NotAnInteger = codes "ERR value is not an integer or out of range"
error_text HashNotAnInteger = codes "ERR hash value is not an integer"
error_text Overflow = codes "ERR increment or decrement would overflow"
error_text WrongType = codes "WRONGTYPE Operation against a key holding the wrong kind of value"
error_text WrongSlot = codes "ERR Invalid slot"
error_text SomeKeysMissing = codes "TRYAGAIN Multiple keys request during rehashing of slot"
error_text KeyFrozen = codes "TRYAGAIN Key is being moved"
error_text HandingOver = codes "TRYAGAIN Node is handing over"
error_text TableNotUpdated = codes "TRYAGAIN Slot table not yet updated"
error_text OldMove = codes "ERR move number is not above the last one"
error_text SlotBusy = codes "ERR slot is already being moved"
error_text NotOwner = codes "ERR slot is not owned by the source"
error_text AlreadyOwner = codes "ERR slot is already owned by this node"
error_text NotDrained = codes "ERR slot is not drained"
error_text UnknownNode = codes "ERR unknown node"
error_text CopyOutstanding = codes "TRYAGAIN Another copy is outstanding"
error_text WrongTarget = codes "ERR slot is not migrating to that address"
error_text NotAcknowledged = codes "IOERR copy not acknowledged"
error_text NotReplica = codes "ERR node is not a replica"
error_text NodePaused = codes "ERR node is handing over"
error_text (WrongArity name) = codes "ERR wrong number of arguments for '" ++ name_text name ++ codes "' command"

-- the reply to words that are not a command
abbrev pub line_of : CommandFault → ErrorLine
line_of Unknown = UnknownCommand
line_of UnknownSubcommand = UnknownWord
line_of (Arity name) = WrongArity name
line_of Syntax = WrongSyntax
line_of InvalidSlot = WrongSlot
line_of NoInteger = NotAnInteger
