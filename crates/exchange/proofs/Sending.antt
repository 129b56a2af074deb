-- A request on its way out.
use Rattle.std.proofs.Common.{◌≡◌, ◌<◌, ◌≤◌, ◌==◌, ◌∷◌, ◌+◌, ◌++◌, ℕ, take, ap, arith, Bool, true, false, List, [], Option, None, Some, length, append-nil, refl, sym, subst, ◌∙◌, MatchBool, inl, inr}
use Rattle.std.proofs.Math.Nat.{min-eq_left}
use Rattle.std.proofs.lemmas.List.{length-append, length-take}
use Rattle.std.specs.Io.KnownBytes.{Appends, Keeps}
use Rattle.resp_values.specs.Request.{request_spelling}
use Rattle.resp2.specs.Writing.{AppendsBeginning}
use Rattle.exchange.specs.Wire.{Outlet, Wire}
use Rattle.exchange.specs.Exchange.{Exchanges, HasFailed, Receives, Sends, StopsSending}
use Rattle.exchange.specs.declared.outcome.Outcome.{Outcome}
use Rattle.exchange.specs.declared.outcome.Outcome.TheVariants.{Reply, BadReply, Broken, NoMemory}

keeps_by_nothing : (a b : Option (List ℕ)) → Appends a b [] → Keeps a b
keeps_by_nothing None b nothing = tt
keeps_by_nothing (Some x) None nothing = absurd nothing
keeps_by_nothing (Some x) (Some y) nothing = nothing ∙ append-nil x

nothing_by_keeps : (a b : Option (List ℕ)) → Keeps a b → Appends a b []
nothing_by_keeps None b keeps = tt
nothing_by_keeps (Some x) None keeps = absurd keeps
nothing_by_keeps (Some x) (Some y) keeps = keeps ∙ sym (append-nil x)

-- so many more bytes
pub more_written : (written rest : List ℕ) (n : ℕ) → n ≤ length rest → length (written ++ take n rest) ≡ length written + n
more_written written rest n few = length-append written (take n rest) ∙ ap (λ m. length written + m) (length-take n rest ∙ min-eq_left few)

pub some_written : (written rest : List ℕ) (n : ℕ) → (0 < n) × (n ≤ length rest) → 0 < length (written ++ take n rest)
some_written written rest n some = rw (more_written written rest n some.1) (omega arith)

pub some_left : (rest : List ℕ) (is_empty : Bool) → is_empty ≡ (length rest == 0) → is_empty ≡ false → 0 < length rest
some_left [] is_empty is none = cc
some_left (byte ∷ rest) is_empty is none = omega arith

-- the writer failed, once these were written
pub stops : (handed : Bool) (bytes written rest : List ℕ) (old new : Outlet) → MatchBool handed (0 < length written) (written ≡ [])
    → written ++ rest ≡ bytes → Appends old.bytes new.bytes written → HasFailed old.failures new.failures → StopsSending handed bytes old new
stops true bytes written rest old new some split appends failed =
    record { written = written; rest = rest; some = some; split = split; appends = appends; failed = failed }
stops false bytes written rest old new none split appends failed =
    record { keeps = keeps_by_nothing old.bytes new.bytes (subst (Appends old.bytes new.bytes) none appends); failed = failed }

pub stops_begun : (handed : Bool) (bytes : List ℕ) (old new : Outlet) → StopsSending handed bytes old new → AppendsBeginning old.bytes new.bytes bytes
stops_begun true bytes old new cut = record { written = cut.written; rest = cut.rest; appends = cut.appends; split = cut.split }
stops_begun false bytes old new unsent = record { written = []; rest = bytes; appends = nothing_by_keeps old.bytes new.bytes unsent.keeps; split = refl }

pub sends_begun : (bytes : List ℕ) (old new : Outlet) → Appends old.bytes new.bytes bytes → AppendsBeginning old.bytes new.bytes bytes
sends_begun bytes old new sends = record { written = bytes; rest = []; appends = sends; split = append-nil bytes }

-- nothing came of a request that didn't go out
pub unsent : (words : List (List ℕ)) (handed : Bool) (old new : Wire) → StopsSending handed (request_spelling words) old.outlet new.outlet
    → new.inlet ≡ old.inlet → Exchanges words old (Broken handed) new
unsent words true old new cut same = inl (cut, same)
unsent words false old new none same = (none, same)

-- what came of one that did
pub received : (words : List (List ℕ)) (outcome : Outcome) (old new : Wire) → Sends words old.outlet new.outlet
    → Receives old.inlet outcome new.inlet → Exchanges words old outcome new
received words (Reply reply) old new sends receives = (sends, receives)
received words BadReply old new sends receives = (sends, receives)
received words (Broken false) old new sends receives = absurd receives
received words (Broken true) old new sends receives = inr (sends, receives)
received words (NoMemory false) old new sends receives = absurd receives
received words (NoMemory true) old new sends receives = (sends, receives)
