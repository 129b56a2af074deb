mod ClearedSlots
mod RemovedKeys
mod HalfLemmas
