-- Stations of all nodes (ours).
use Rattle.std.specs.Prelude.{◌≡◌, ◌<◌, ℕ, List, length, map}
use Rattle.std.specs.List.{range_with_len}
use Rattle.bus.specs.declared.message.Message.{Message}
use Rattle.link_ends.specs.Ends.{EndView}
use Rattle.links.specs.Stations.{StationView, end_of}
use Rattle.cell_parts.specs.Journal.{CellView}

abbrev pub cells_of : List StationView → List CellView
cells_of stations = map (λ (station : StationView). station.cell) stations

abbrev pub ends_of : StationView → List (EndView Message)
ends_of station = map end_of station.ports

-- those of so many nodes, and one at least, in the order of their numbers
abbrev pub AreInOrder : ℕ → List StationView → Type 0
AreInOrder count stations = (0 < count) × (length stations ≡ count) × (map (λ (station : StationView). station.cell.node) stations ≡ range_with_len 0 count)
