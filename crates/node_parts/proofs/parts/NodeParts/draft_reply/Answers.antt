use Rattle.node_parts.proofs.ChangeLemmas.{drafts_reply}
use Rattle.node_parts.proofs.parts.NodeParts.draft_reply.Goals as goal

pub returns : goal.returns
returns g c after leads =
    drafts_reply c.args.self.now c.args.draft.now c.put_reply.new.self c.args.why c.args.reply c.args.change after c.requires c.put_reply.ensures leads c.put_change.new.self c.put_change.ensures
