-- When a stream refuses, and when a replica does (the refusals are ours).
use Rattle.std.specs.Prelude.{◌≡◌, ◌<◌, ◌≤◌, ◌^◌, ℕ}
use Rattle.bus.specs.Piece.{PieceVerdict}
use Rattle.bus.specs.Piece.PieceVerdict.{Gap, OtherStream, Takes}
use Rattle.repl_stream.specs.declared.fault.AppendFault.{AppendFault}
use Rattle.repl_stream.specs.declared.fault.AppendFault.TheVariants as append
use Rattle.repl_stream.specs.declared.fault.OfferFault.{OfferFault}
use Rattle.repl_stream.specs.declared.fault.OfferFault.TheVariants as offer
use Rattle.repl_stream.specs.declared.fault.StreamFault.{StreamFault}
use Rattle.repl_stream.specs.declared.fault.StreamFault.TheVariants.{Memory, TooOld}

-- memory may always be refused; and bytes that are not kept any longer are
abbrev pub MayRefuse : StreamFault → Type 0 → Type 0
MayRefuse Memory is_old = Unit {0}
MayRefuse TooOld is_old = is_old

-- a piece that is to be taken is refused only where memory is
abbrev pub IsRefusedFor : OfferFault → PieceVerdict → Type 0
IsRefusedFor offer.Gap verdict = verdict ≡ Gap
IsRefusedFor offer.OtherStream verdict = verdict ≡ OtherStream
IsRefusedFor offer.Memory verdict = (place : ℕ) × (verdict ≡ Takes place)

-- bytes that would end there have no room only past the greatest offset, or where memory is refused
abbrev pub IsRefusedAt : AppendFault → ℕ → Type 0
IsRefusedAt append.Exhausted end = 2 ^ 64 ≤ end
IsRefusedAt append.Memory end = end < 2 ^ 64
