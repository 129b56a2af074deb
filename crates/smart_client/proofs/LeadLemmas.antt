-- Where connections lead, from deed to deed.
use Rattle.std.proofs.Common.{◌≡◌, ◌++◌, ◌∷◌, ◌==◌, ◌&&◌, ℕ, Bool, true, false, cond, List, [], length, map, remove, get_or, Option, Some, None, MatchBool, refl, ap, sym, ◌∙◌}
use Rattle.std.proofs.lemmas.List.{map-append}
use Rattle.std.proofs.lemmas.Option.{get_or_from_slice_get}
use Rattle.std.proofs.Math.Seq.{map-set_same}
use Rattle.redirection.specs.Address.{Place}
use Rattle.smart_client.specs.Calls.{Calls, ClientView, ConnectionsLead, Deed, WiresMove, closed_if, is_begun, pool_behind, wires_closed_if}
use Rattle.smart_client.specs.Pool.{Pool, closed, is_lost, place_in, pool_after, with_new, without_place}
use Rattle.smart_client.specs.Step.{Answer}
use Rattle.smart_client.specs.Wires.{Brings, Channel, IsFresh, Joins, Moves, Uses, Wires, wires_without, with_channel}
use Rattle.smart_client.specs.declared.action.Action.{Action}
use Rattle.smart_client.specs.declared.action.Action.TheVariants.{Connect, Send, Done}
use Rattle.smart_client.specs.declared.action.Event.{Event}
use Rattle.smart_client.specs.declared.action.Event.TheVariants as happened
use Rattle.smart_client.proofs.PoolLemmas.{map-remove}

-- one end of each connection, whichever it is: it leads to the address for which it was made, and a request leaves that as it is
module _ (end : Channel → Place) (made : (address : Place) (fresh : Channel) → IsFresh address fresh → end fresh ≡ address)
    (kept : (words : List (List ℕ)) (event : Event) (old new : Channel) → Brings words old event new → end new ≡ end old) where
  joined : (address : Place) (pool : Pool) (used : Option ℕ) (is_new : Bool) (old new : Wires) → map end old.channels ≡ pool.addresses → MatchBool is_new (Joins address old new) (new ≡ old)
      → map end new.channels ≡ (cond is_new (with_new pool address) (record pool { used = used })).addresses
  joined address pool used true old new lead joins =
      ap (λ (wires : Wires). map end wires.channels) joins.grown
      ∙ map-append end old.channels (joins.fresh ∷ [])
      ∙ ap (λ (front : List Place). front ++ end joins.fresh ∷ []) lead
      ∙ ap (λ (place : Place). pool.addresses ++ place ∷ []) (made address joins.fresh joins.is_fresh)
  joined address pool used false old new lead same = ap (λ (wires : Wires). map end wires.channels) same ∙ lead

  left : (is_lost : Bool) (addresses : List Place) (used : Option ℕ) (place : ℕ) (wires : Wires) → used ≡ Some place → map end wires.channels ≡ addresses
      → map end (cond is_lost (wires_without (Some place) wires) wires).channels ≡ (cond is_lost (closed (record { addresses = addresses; used = used })) (record { addresses = addresses; used = used })).addresses
  left true addresses used place wires is lead =
      map-remove end wires.channels place ∙ ap (λ (places : List Place). remove places place) lead ∙ ap (λ (o : Option ℕ). without_place addresses o) (sym is)
  left false addresses used place wires is lead = lead

  none_left : (is_lost : Bool) (addresses : List Place) → addresses ≡ (cond is_lost (closed (record { addresses = addresses; used = None })) (record { addresses = addresses; used = None })).addresses
  none_left true addresses = refl
  none_left false addresses = refl

  used_on : (words : List (List ℕ)) (event : Event) (addresses : List Place) (used : Option ℕ) (old new : Wires) → map end old.channels ≡ addresses → Uses words event used old new
      → map end new.channels ≡ (cond (is_lost event) (closed (record { addresses = addresses; used = used })) (record { addresses = addresses; used = used })).addresses
  used_on words event addresses None old new lead uses = ap (λ (wires : Wires). map end wires.channels) uses.1 ∙ lead ∙ none_left (is_lost event) addresses
  used_on words event addresses (Some place) old new lead uses =
      let same : end uses.after ≡ end (get_or old.channels place uses.before) =
      kept words event uses.before uses.after uses.brings ∙ ap end (sym (get_or_from_slice_get old.channels place uses.before uses.before uses.there)) in
      ap (λ (wires : Wires). map end wires.channels) uses.left
      ∙ left (is_lost event) addresses (Some place) place (with_channel place uses.after old) refl (map-set_same end old.channels place uses.after uses.before same ∙ lead)

  same_lead : (old new : Wires) (addresses : List Place) → map end old.channels ≡ addresses → new ≡ old → map end new.channels ≡ addresses
  same_lead old new addresses lead same = ap (λ (wires : Wires). map end wires.channels) same ∙ lead

  leads_on : (action : Action) (event : Event) (pool : Pool) (old new : Wires) → map end old.channels ≡ pool.addresses → Moves action event pool old new
      → map end new.channels ≡ (pool_after action event pool).addresses
  leads_on (Connect address) happened.Connected pool old new lead moves =
      joined address pool (Some (place_in pool.addresses address)) (place_in pool.addresses address == length pool.addresses) old new lead moves
  leads_on (Connect address) happened.NotConnected pool old new lead moves = ap (λ (wires : Wires). map end wires.channels) moves.0 ∙ lead
  leads_on (Connect address) (happened.Call words) pool old new lead moves = absurd moves
  leads_on (Connect address) (happened.Reply reply) pool old new lead moves = absurd moves
  leads_on (Connect address) happened.BadReply pool old new lead moves = absurd moves
  leads_on (Connect address) (happened.Broken handed) pool old new lead moves = absurd moves
  leads_on (Connect address) (happened.NoMemory handed) pool old new lead moves = same_lead old new pool.addresses lead moves
  leads_on (Send words) event pool old new lead moves = used_on words event pool.addresses pool.used old new lead moves
  leads_on (Done answer close) event pool old new lead moves = absurd moves

  all_lead : (deeds : List Deed) (pool : Pool) (old new : Wires) → map end old.channels ≡ pool.addresses → WiresMove deeds pool old new
      → map end new.channels ≡ (pool_behind deeds pool).addresses
  all_lead [] pool old new lead moved = same_lead old new pool.addresses lead moved
  all_lead (deed ∷ deeds) pool old new lead moved =
      all_lead deeds (pool_after deed.action deed.event pool) moved.0 new (leads_on deed.action deed.event pool old moved.0 lead moved.1) moved.2

  closed_lead : (addresses : List Place) (used : Option ℕ) (channels : List Channel) → map end channels ≡ addresses → map end (without_place channels used) ≡ without_place addresses used
  closed_lead addresses None channels lead = lead
  closed_lead addresses (Some place) channels lead = map-remove end channels place ∙ ap (λ (places : List Place). remove places place) lead

  ends_lead : (close : Bool) (pool : Pool) (wires : Wires) → map end wires.channels ≡ pool.addresses → map end (wires_closed_if close pool.used wires).channels ≡ (closed_if close pool).addresses
  ends_lead true pool wires lead = closed_lead pool.addresses pool.used wires.channels lead
  ends_lead false pool wires lead = lead

  call_leads : (words : List (List ℕ)) (old new : ClientView) (answer : Answer) → map end old.wires.channels ≡ old.pool.addresses → Calls words old answer new
      → map end new.wires.channels ≡ new.pool.addresses
  call_leads words old new answer lead calls =
      ap (λ (wires : Wires). map end wires.channels) calls.wires
      ∙ ends_lead (is_begun calls.deeds && calls.close) (pool_behind calls.deeds old.pool) calls.reached (all_lead calls.deeds old.pool old.wires calls.reached lead calls.moved)
      ∙ ap (λ (pool : Pool). pool.addresses) (sym calls.pool)

pub connections_lead : ConnectionsLead
connections_lead words old new answer lead calls = record {
  readers = call_leads (λ channel. channel.reads_from) (λ address fresh is. is.reader) (λ words event old new brings. brings.reader) words old new answer lead.readers calls;
  writers = call_leads (λ channel. channel.writes_to) (λ address fresh is. is.writer) (λ words event old new brings. brings.writer) words old new answer lead.writers calls;
}
