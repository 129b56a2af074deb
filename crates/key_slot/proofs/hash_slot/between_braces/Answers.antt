use Rattle.std.proofs.Common.{◌≡◌, ap, ◌∙◌, ℕ, ◌+◌, ◌-◌, List, length, take, drop, sym, option_copied, arith, length-drop, take_all}
use Rattle.key_slot.proofs.TagLemmas.{braced-unclosed, braced-found}
use Rattle.key_slot.proofs.hash_slot.between_braces.Goals as goal

-- `&key[i..]`
rest_is : (key : List ℕ) (i : ℕ) → take (length key - i) (drop i key) ≡ drop i key
rest_is key i = take_all (length key - i) (drop i key) (omega (arith, length-drop i key))

pub returns-in_err-close : goal.returns-in_err-close
returns-in_err-close c =
    ap option_copied c.from_residual-in_err-close.ensures
    ∙ sym
    (braced-unclosed c.args.key.now (take (length c.args.key.now - (c.in_ok-open.open + 1)) (drop (c.in_ok-open.open + 1) c.args.key.now)) c.in_ok-open.open
    (sym c.in_ok-open.ensures.first)
    (rest_is c.args.key.now (c.in_ok-open.open + 1))
    (sym c.in_err-close.ensures.first))

pub returns : goal.returns
returns c =
    sym
    (braced-found c.args.key.now (take (length c.args.key.now - (c.in_ok-open.open + 1)) (drop (c.in_ok-open.open + 1) c.args.key.now)) c.in_ok-open.open c.in_ok-close.close
    (sym c.in_ok-open.ensures.first)
    (rest_is c.args.key.now (c.in_ok-open.open + 1))
    (sym c.in_ok-close.ensures.first)
    (omega (arith, c.in_ok-close.ensures.within))
    (omega (arith, c.if-close-eq0.false)))
