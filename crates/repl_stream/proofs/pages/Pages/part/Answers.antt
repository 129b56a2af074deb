use Rattle.std.proofs.Common.{◌≡◌, ℕ, List, take, ap, ◌∙◌, arith}
use Rattle.std.proofs.lemmas.Result.{IfOk-weaker}
use Rattle.circular_buffer.specs.Buffer.{keep_last}
use Rattle.repl_stream.specs.Pages.{bytes_of}
use Rattle.repl_stream.proofs.PageLemmas.{parted_whole}
use Rattle.repl_stream.proofs.pages.Pages.part.Goals as goal

pub returns : goal.returns
returns c =
    let all : List ℕ = c.append_last.new.bytes.items in
    IfOk-weaker c.from_vec.result (λ (string : List ℕ). string ≡ all)
    (λ (string : List ℕ). string ≡ take c.args.most (keep_last c.args.count (bytes_of c.args.self.now)))
    (λ string is. parted_whole c.args.most c.args.count c.saturating_sub-before.result c.args.self.now c.in_ok-part.part.items
    c.append_last_pages.new.bytes.items all c.as_slice.result.now string c.requires c.in_ok-part.ensures.items
    (omega arith) c.as_slice.ensures.value c.in_ok-append_last_pages.ensures.ok c.in_ok-append_last.ensures
    is)
    c.from_vec.ensures
