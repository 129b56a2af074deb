use Rattle.repl_stream.proofs.pages.+append_last_pages.Given as goal

-- fewer pages are left
abbrev pub decreases-append_last_pages : goal.decreases-append_last_pages
decreases-append_last_pages l = l.count
