use Rattle.std.proofs.Common.{ap}
use Rattle.node_parts.specs.declared.draft.Draft.{Draft}
use Rattle.node_parts.proofs.ChangeLemmas.{drafts_sending}
use Rattle.node_parts.proofs.parts.NodeParts.draft_reply_sending.Goals as goal

pub returns : goal.returns
returns g c after leads =
    let said = c.put_bodies.ensures in
    drafts_sending c.args.self.now c.args.draft.now c.put_reply.new.self c.args.why c.args.reply c.args.change after c.requires c.put_reply.ensures leads
    c.args.bodies.items c.put_bodies.new.self c.put_change.new.self
    (ap (λ (d : Draft). d.bodies.items) said) (ap (λ (d : Draft). d.response) said) (ap (λ (d : Draft). d.released) said) (ap (λ (d : Draft). d.epoch) said)
    (ap (λ (d : Draft). d.written) said) (ap (λ (d : Draft). d.plan) said) (ap (λ (d : Draft). d.succession) said) c.put_change.ensures
