use Rattle.std.proofs.Common.{◌∙◌, refl, sym, subst, ap, take_all}
use Rattle.key_slot.specs.Crc16.{IsCrc, crc}
use Rattle.key_slot.proofs.RemainderLemmas.{IsCrc-crc, crc-only}
use Rattle.key_slot.proofs.crc16_table.crc16.Goals as goal

pub loop-byte-init : goal.loop-byte-init
unfolding crc
loop-byte-init c = refl

pub returns-clause-value : goal.returns-clause-value
returns-clause-value c = c.loop-byte.invariant ∙ ap crc (take_all _ _ c.loop-byte-test.false)

pub returns-clause-crc : goal.returns-clause-crc
returns-clause-crc c = subst (λ n. IsCrc c.args.bytes.now n) (sym (returns-clause-value c)) (IsCrc-crc c.args.bytes.now)

pub returns-clause-only : goal.returns-clause-only
returns-clause-only c other is = crc-only c.args.bytes.now other is ∙ sym (returns-clause-value c)
