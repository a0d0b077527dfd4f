mod Moving
mod Opening
