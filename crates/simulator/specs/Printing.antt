-- What comes out of a world as a text, in the simulator's own format: a line an output.
use Rattle.std.specs.Prelude.{◌++◌, ℕ, Bool, true, false, List, Ok, Err, codes, decimal}
use Rattle.std.specs.List.{flat_map}
use Rattle.bus.specs.declared.message.Body.{Body}
use Rattle.bus.specs.declared.bodies.ElectionBody.{ElectionBody}
use Rattle.bus.specs.declared.bodies.SlotsBody.{SlotsBody}
use Rattle.bus.specs.declared.bodies.StreamBody.{StreamBody}
use Rattle.bus.specs.declared.bodies.ElectionBody.TheVariants.{Candidacy, Grant, Pause, Paused}
use Rattle.bus.specs.declared.bodies.SlotsBody.TheVariants.{Copy, Ack, Drained, Claim}
use Rattle.bus.specs.declared.bodies.StreamBody.TheVariants.{Sync, Piece, Snapshot}
use Rattle.bus.specs.declared.message.Body.TheVariants.{Slots, Stream, Election, Report}
use Rattle.resp_values.specs.Reply.{reply_spelling}
use Rattle.smart_client.specs.Faults.{code_of}
use Rattle.world_nodes.specs.declared.output.Output.{Output}
use Rattle.world_nodes.specs.declared.output.Output.TheVariants.{Answer, Admin, Sent, Promoted, Nothing}
use Rattle.cli_text.specs.Escaping.{escaped}

-- ---- outputs

-- what a message says, by its kind
abbrev pub kind_of_slots : SlotsBody → List ℕ
kind_of_slots (Copy id pairs) = codes "Copy"
kind_of_slots (Ack id) = codes "Ack"
kind_of_slots (Drained slot number epoch) = codes "Drained"
kind_of_slots (Claim claim replaced) = codes "Claim"

abbrev pub kind_of_stream : StreamBody → List ℕ
kind_of_stream (Sync sync) = codes "Sync"
kind_of_stream (Piece piece) = codes "Piece"
kind_of_stream (Snapshot snapshot) = codes "Snapshot"

abbrev pub kind_of_election : ElectionBody → List ℕ
kind_of_election (Candidacy request) = codes "Request"
kind_of_election (Grant epoch) = codes "Grant"
kind_of_election (Pause stream) = codes "Pause"
kind_of_election (Paused handing) = codes "Paused"

abbrev pub kind : Body → List ℕ
kind (Slots body) = kind_of_slots body
kind (Stream body) = kind_of_stream body
kind (Election body) = kind_of_election body
kind (Report suspects) = codes "Report"

-- a promotion by a handover is marked
abbrev pub mark : Bool → List ℕ
mark true = codes " planned"
mark false = codes ""

-- `answer <client> <reply>`, `fault <client> <code>`, `admin <node> <reply>`, `sent <message> <from> <to> <kind>`,
-- `promoted <node> <epoch> <offset>`, behind it `planned` where the master handed over, or `none`
abbrev pub shown : Output → List ℕ
shown (Answer client (Ok reply)) = codes "answer " ++ decimal client ++ codes " " ++ flat_map escaped (reply_spelling reply)
shown (Answer client (Err fault)) = codes "fault " ++ decimal client ++ codes " " ++ code_of fault
shown (Admin node reply) = codes "admin " ++ decimal node ++ codes " " ++ flat_map escaped (reply_spelling reply)
shown (Sent number message) =
    codes "sent " ++ decimal number ++ codes " " ++ decimal message.from ++ codes " " ++ decimal message.to ++ codes " " ++ kind message.body
shown (Promoted node promotion) = codes "promoted " ++ decimal node ++ codes " " ++ decimal promotion.epoch ++ codes " " ++ decimal promotion.offset ++ mark promotion.planned
shown Nothing = codes "none"

-- its line
abbrev pub printed : Output → List ℕ
printed output = shown output ++ codes "\n"
