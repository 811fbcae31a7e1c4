mod Quoted
mod Written
mod Named
mod Digits
mod Spelling
mod Ends
mod Sets
