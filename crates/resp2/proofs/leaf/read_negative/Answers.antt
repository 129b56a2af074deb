use Rattle.std.proofs.Common.{◌-◌, ◌^◌, length, drop, refl, arith}
use Rattle.std.proofs.lemmas.List.{take_all, length-drop}
use Rattle.resp_header.specs.declared.fault.Fault.TheVariants.{Protocol}
use Rattle.resp2.proofs.HeaderReading.{header_is}
use Rattle.resp2.proofs.LeafSteps.{negated, negative_found}
use Rattle.resp2.proofs.leaf.read_negative.Goals as goal

pub overflow_sub-result : goal.overflow_sub-result
overflow_sub-result c =
    (header_is 45 Protocol 1 (2 ^ 63) _ _ c.in_ok-header.field-0 c.in-Some.header (omega arith) (omega arith) (omega arith) refl c.in_ok-header.ensures c.in-Some.is).0

pub overflow_cast-result : goal.overflow_cast-result
overflow_cast-result c =
    let header = header_is 45 Protocol 1 (2 ^ 63) _ _ c.in_ok-header.field-0 c.in-Some.header (omega arith) (omega arith) (omega arith) refl c.in_ok-header.ensures c.in-Some.is in
    let high = header.1 in
    let low = header.0 in
    (negated (c.in-Some.header.number - 1) (omega (arith, high, low))).cast

pub overflow_sub-result-2 : goal.overflow_sub-result-2
overflow_sub-result-2 c =
    let header = header_is 45 Protocol 1 (2 ^ 63) _ _ c.in_ok-header.field-0 c.in-Some.header (omega arith) (omega arith) (omega arith) refl c.in_ok-header.ensures c.in-Some.is in
    let high = header.1 in
    let low = header.0 in
    (negated (c.in-Some.header.number - 1) (omega (arith, high, low))).minus

pub overflow_sub-result-3 : goal.overflow_sub-result-3
overflow_sub-result-3 c =
    let header = header_is 45 Protocol 1 (2 ^ 63) _ _ c.in_ok-header.field-0 c.in-Some.header (omega arith) (omega arith) (omega arith) refl c.in_ok-header.ensures c.in-Some.is in
    let high = header.1 in
    let low = header.0 in
    (negated (c.in-Some.header.number - 1) (omega (arith, high, low))).less

pub returns : goal.returns
returns c =
    negative_found c.args.bytes.now _ c.in_ok-header.field-0 c.in-Some.header c.requires.minus (take_all (length c.args.bytes.now - 1) (drop 1 c.args.bytes.now) (omega (arith, length-drop 1 c.args.bytes.now))) c.in_ok-header.ensures c.in-Some.is
