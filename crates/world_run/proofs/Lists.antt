-- What is contained in lists that are made from others.
pub use Rattle.node_step.proofs.Lists.{contains_nothing, contains_one, contains_first, contains_more, first_or_more, from_map, from_flat_map, first_found_or_more, no_element, each_element, mapped, passed}
