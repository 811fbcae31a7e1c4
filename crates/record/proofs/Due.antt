-- A node that is due lies within the bytes.
use Rattle.std.proofs.Common.{ℕ, ◌<◌, ◌≤◌, List, length, arith}
use Rattle.record.specs.Record.{Due, first, inside, after}

pub due_in : (bytes : List ℕ) {o end level before : ℕ} → Due bytes o end level before → (o < end) × (end ≤ length bytes)
due_in bytes (first h) = (h, omega arith)
due_in bytes (inside d s h) = let g = due_in bytes d in let y = s.size_fits in (h, omega arith)
due_in bytes (after n d s x h) = let g = due_in bytes d in (h, omega arith)
