-- What answers tell, by examples.
use Rattle.std.proofs.Common.{None, Some, Ok, Err, refl}
use Rattle.std.specs.Prelude.{codes, pos}
use Rattle.resp_values.specs.declared.reply.Reply.TheVariants.{Integer, Error, Null}
use Rattle.smart_client.specs.declared.fault.ClientFault.TheVariants.{Lost, Memory, NotConnected}
use Rattle.final_answers.specs.Book.{Tells}

-- an INCR that was executed and answered
counted : Tells (Some (Integer (pos 6))) (Ok (Integer (pos 6)))
counted = refl

-- the answer of another execution
miscounted : Tells (Some (Integer (pos 6))) (Ok (Integer (pos 5))) → ⊥
miscounted is = cc

-- a reply without an execution
invented : Tells None (Ok Null) → ⊥
invented is = cc

-- a slot that nobody serves
down : Tells None (Ok (Error (codes "CLUSTERDOWN Hash slot not served")))
down = refl

-- an execution that the client takes for a refusal
refused_yet_executed : Tells (Some Null) (Ok (Error (codes "CROSSSLOT Keys in request don't hash to the same slot"))) → ⊥
refused_yet_executed is = cc

-- an answer that is lost tells nothing, whether the command was executed or not
lost : Tells (Some (Integer (pos 6))) (Err Lost)
lost = tt

lost_before : Tells None (Err Lost)
lost_before = tt

-- a client that says that memory was refused, or that it isn't connected, may ask again
refused : Tells (Some (Integer (pos 6))) (Err Memory) → ⊥
refused is = cc

not_connected : Tells (Some (Integer (pos 6))) (Err NotConnected) → ⊥
not_connected is = cc
