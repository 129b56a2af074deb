use Rattle.std.proofs.Common.{◌≡◌, length}
use Rattle.std.specs.List.{All}
use Rattle.repl_stream.specs.Pages.{IsPage}
use Rattle.repl_stream.specs.declared.pages.TheConstants.{PAGES}
use Rattle.repl_stream.proofs.pages.empty_pages.Given as goal

-- so many pages are made
abbrev pub invariant-loop : goal.invariant-loop
invariant-loop l = (l.pages.capacity ≡ PAGES) × (length l.pages.items ≡ l.counter) × All (IsPage l.len) l.pages.items
