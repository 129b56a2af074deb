pub mod UndeliveredLemmas
