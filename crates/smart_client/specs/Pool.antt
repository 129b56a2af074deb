-- The open connections of a client, one for each address (this project's own).
use Rattle.std.specs.Prelude.{◌==◌, ◌&&◌, ◌++◌, ◌∷◌, ℕ, Bool, true, false, List, [], length, Option, Some, None, remove, if◌then◌else◌}
use Rattle.std.specs.Str.{bytes_eq}
use Rattle.std.specs.List.{position_or_len}
use Rattle.redirection.specs.Address.{Place}
use Rattle.smart_client.specs.declared.action.Action.{Action}
use Rattle.smart_client.specs.declared.action.Action.TheVariants.{Connect, Send, Done}
use Rattle.smart_client.specs.declared.action.Event.{Event}
use Rattle.smart_client.specs.declared.action.Event.TheVariants as happened

-- the addresses that connections lead to, and the place of the connection in use among them
pub record Pool : Type 0 where
  pub addresses : List Place
  pub used : Option ℕ

abbrev pub empty_pool : Pool
empty_pool = record { addresses = []; used = None }

-- the other address is this one
abbrev pub is_same : Place → Place → Bool
is_same address other = bytes_eq other.host address.host && (other.port == address.port)

-- the place of the first connection to the address, or the one behind all
abbrev pub place_in : List Place → Place → ℕ
place_in addresses address = position_or_len (is_same address) addresses

-- a new one to the address is in use
abbrev pub with_new : Pool → Place → Pool
with_new pool address = record { addresses = pool.addresses ++ address ∷ []; used = Some (length pool.addresses) }

-- the connection to the address is in use: the one that is kept, or else a new one
abbrev pub turned_to : Place → Pool → Pool
turned_to address pool =
    if place_in pool.addresses address == length pool.addresses then with_new pool address
    else record pool { used = Some (place_in pool.addresses address) }

-- none is in use
abbrev pub unused : Pool → Pool
unused pool = record pool { used = None }

-- the one at the place is closed
abbrev pub without_place : {A : Type 0} → List A → Option ℕ → List A
without_place items None = items
without_place items (Some place) = remove items place

-- the one in use is closed, if there is one
abbrev pub closed : Pool → Pool
closed pool = record { addresses = without_place pool.addresses pool.used; used = None }

-- the connection failed or ended, or bytes came on it that are no reply
abbrev pub is_lost : Event → Bool
is_lost happened.BadReply = true
is_lost (happened.Broken handed) = true
is_lost event = false

-- the open connections once this came of what was wanted
abbrev pub pool_after : Action → Event → Pool → Pool
pool_after (Connect address) happened.Connected pool = turned_to address pool
pool_after (Connect address) event pool = unused pool
pool_after (Send words) event pool = if is_lost event then closed pool else pool
pool_after (Done answer close) event pool = pool
