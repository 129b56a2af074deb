-- The acts of a bad network (ours).
use Rattle.std.specs.Prelude.{◌+◌, ℕ, List, length, nat_lt, if◌then◌else◌, slice_index_or, slice_set}
use Rattle.link_ends.specs.declared.acts.Act.{Act}
use Rattle.link_ends.specs.declared.acts.Act.TheVariants.{Pass}

-- acts, the first of them for the first message, and how many are done
pub record ActsView : Type 0 where
  pub all : List Act
  pub done : ℕ

-- the act for the message of that number; what comes behind the last act is passed
abbrev pub act_of : List Act → ℕ → Act
act_of acts number = slice_index_or acts number Pass

-- one more is done, in this way
abbrev pub after_one : ActsView → Act → ActsView
after_one acts act = if nat_lt acts.done (length acts.all) then record { all = slice_set acts.all acts.done act; done = acts.done + 1 } else acts
