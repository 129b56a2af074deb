-- Orders that are obeyed, by their kind.
use Rattle.std.proofs.Common.{ℕ, Option, refl}
use Rattle.command_table.specs.declared.command.SlotOrder.TheVariants.{Importing, Migrating, Node}
use Rattle.connections.specs.declared.conn.Conn.{Conn}
use Rattle.order_rows.specs.Orders.{Gives, Obeys}
use Rattle.node_parts.specs.Drafts.{Drafts}
use Rattle.node_parts.specs.declared.draft.Draft.{Draft}
use Rattle.node_step.specs.Orders.{ending_verdict, importing, migrating}
use Rattle.node_step.specs.Requests.{using_up}
use Rattle.node_step.specs.State.{NodeState}

pub importing_obeys : (old : NodeState) (conn : Conn) (slot : ℕ) (target number : Option ℕ) (draft : Draft)
    → Drafts old (importing (using_up old conn) slot target number) draft → Obeys old conn slot Importing target number draft
importing_obeys old conn slot target number draft drafts = record { has_number = refl; drafts = drafts }

pub migrating_obeys : (old : NodeState) (conn : Conn) (slot : ℕ) (target number : Option ℕ) (draft : Draft)
    → Drafts old (migrating (using_up old conn) slot target number) draft → Obeys old conn slot Migrating target number draft
migrating_obeys old conn slot target number draft drafts = record { has_number = refl; drafts = drafts }

pub giving_obeys : (old : NodeState) (conn : Conn) (slot : ℕ) (target number : Option ℕ) (draft : Draft)
    → Gives old conn slot (ending_verdict old slot target number) draft → Obeys old conn slot Node target number draft
giving_obeys old conn slot target number draft gives = record { has_number = gives.epoch; drafts = gives.drafts }
