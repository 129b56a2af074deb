use Rattle.listener.proofs.InTurnsLemmas as lemma
use Rattle.listener.proofs.law.turns_make_a_conversation.Goals as goal

pub returns : goal.returns
returns g c = lemma.turns_make_a_conversation _
