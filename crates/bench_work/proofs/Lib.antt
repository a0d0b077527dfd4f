mod FirstRows
mod Written
